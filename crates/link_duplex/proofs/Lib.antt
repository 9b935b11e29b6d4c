pub mod Stepping
pub mod Putting
pub mod ReadingAhead
pub mod Calling
pub mod Receiving
