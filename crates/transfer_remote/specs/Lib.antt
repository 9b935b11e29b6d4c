pub mod Failures
pub mod RemoteCalls
pub mod Listed
pub mod ListingSteps
pub mod ManyListings
