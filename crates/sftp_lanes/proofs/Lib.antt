mod AddedLaws
mod AskingLaws
mod CountLaws
mod DoneLaws
mod FaultLaws
mod FixedLaws
mod Going
mod Opening
mod OpeningSteps
mod Plain
pub mod ReadFrames
mod Reporting
pub mod Sends
pub mod Shown
mod UnmovedLaws
