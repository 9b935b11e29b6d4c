pub mod Lists
mod Steps
mod SeatSteps
pub mod HoldLaws
mod NewSeatLaws
pub mod GrowLaws
pub mod JoinLaws
pub mod CoverLaws
mod UserLaws
pub mod HomeLaws
mod KeptRows
pub mod WakeLaws
pub mod RepeatLaws
