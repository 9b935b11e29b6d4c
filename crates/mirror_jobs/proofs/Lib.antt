mod DealtLaws
mod TurnLaws
mod PlaceLaws
mod ParentLaws
mod WrittenLaws
mod CutLaws
mod ParentRunLaws
mod AloneLaws
pub mod CopyLaws
mod WrittenLengths
mod OrderLaws
mod JobCalls
mod RunParts
mod GoodCopies
pub mod GoodLaws
