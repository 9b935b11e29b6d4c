pub mod Sessions
pub mod Copies
pub mod Jobs
pub mod CopyLegs
pub mod Told
pub mod LegRows
