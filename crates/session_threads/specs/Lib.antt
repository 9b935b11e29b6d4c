pub mod Running
pub mod Crews
pub mod Halves
pub mod Failures
pub mod FailureRows
pub mod Reports
pub mod RunEnds
