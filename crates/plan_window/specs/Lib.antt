pub mod Windows
pub mod PlainSteps
pub mod Tallies
pub mod WindowRows
