mod BodyLens
mod PathLaws
mod DirectoryLaws
mod ListingLaws
mod ListingSteps
pub mod CallSteps
mod PartLaws
pub mod WriteSteps
pub mod WriteOpens
pub mod OpenedWrites
mod WriteStarts
