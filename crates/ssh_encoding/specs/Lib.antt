pub mod Reading
pub mod Writing
pub mod Spelling
pub mod Canonical
pub mod Exact
pub mod Again
pub mod Once
