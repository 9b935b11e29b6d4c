pub mod Tables
mod Slots
mod Marks
pub mod Cuts
mod Groups
pub mod Counts
pub mod Tallies
mod Sounds
mod Records
mod Turning
pub mod Elsewhere
pub mod Sent
mod Refusals
pub mod BodyReadings
