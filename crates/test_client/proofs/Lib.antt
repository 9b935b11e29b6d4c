mod Waiting
mod Rounds
pub mod Streaming
