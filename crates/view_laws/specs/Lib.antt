pub mod FileCalls
pub mod Plainly
