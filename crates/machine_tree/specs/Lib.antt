pub mod Names
pub mod Numbers
pub mod Places
pub mod Sorted
pub mod TreeRows
