pub mod AllClosedLaws
pub mod CallLaws
pub mod ClosedLaws
pub mod CountLaws
pub mod GrantLaws
pub mod HolderLaws
pub mod IdLaws
pub mod JournalLaws
pub mod LetGoLaws
pub mod LimitsLaws
pub mod OverLaws
pub mod PlannedLaws
pub mod CallsSoFar
pub mod RequestLaws
pub mod RunLaws
mod SettledLaws
pub mod WholeRunLaws
mod NoRuns
pub mod WithinLaws
pub mod ReadsLaws
