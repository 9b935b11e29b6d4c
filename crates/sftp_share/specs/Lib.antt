pub mod Shared
pub mod Ended
pub mod DiffersRows
pub mod Completed
pub mod CompletedRows
pub mod Replays
pub mod ReplayRows
