pub mod HoldingLaws
mod DropLaws
mod GetLaws
mod PutLaws
mod ActLaws
mod PutActLaws
pub mod DiskLaws
pub mod LegLaws
mod WholeGetLaws
pub mod WholeGetSteps
mod NamingLaws
mod WritePartLaws
mod SyncLaws
mod WholePutLaws
mod WholePutStages
pub mod WholePutSteps
mod AsideLaws
mod KeptFileLaws
