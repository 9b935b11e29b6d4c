pub mod Frames
pub mod Getting
mod Gathered
pub mod Joining
mod RunErrors
