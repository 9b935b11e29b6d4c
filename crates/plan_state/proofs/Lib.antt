pub mod Polling
pub mod Going
pub mod Closing
pub mod Keeping
pub mod OthersKept
pub mod Grants
pub mod Sparing
