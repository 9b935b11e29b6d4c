pub mod Serving
pub mod Unopened
