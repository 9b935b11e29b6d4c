pub mod Files
pub mod Reading
pub mod Writing
pub mod Exits
pub mod Completing
pub mod Causing
pub mod Stopping
pub mod Choices
mod Misfits
