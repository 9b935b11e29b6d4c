pub mod Told
pub mod Asked
pub mod Runners
pub mod Calls
pub mod Keeping
