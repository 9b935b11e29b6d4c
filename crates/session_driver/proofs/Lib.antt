pub mod Journals
pub mod Stopping
pub mod Joining
mod Parts
pub mod Rounds
pub mod Settled
pub mod Bare
mod Loops
pub mod Whole
mod Asking
mod Greeting
mod SoFarLaws
mod AddingLaws
pub mod ServingLaws
