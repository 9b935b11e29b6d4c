pub mod Seen
pub mod Adding
pub mod Reported
pub mod Complete
pub mod ServesFiles
pub mod Counts
pub mod Events
