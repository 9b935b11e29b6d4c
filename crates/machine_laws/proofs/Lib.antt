pub mod Asking
mod Places
mod Feeding
mod Sound
pub mod Replying
pub mod Owing
mod Picking
pub mod Showing
pub mod Stopping
pub mod Serving
pub mod Numbering
mod Counting
pub mod Whole
