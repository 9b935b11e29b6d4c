mod PhaseLaws
mod EntryLaws
mod HoldLaws
mod CallLaws
mod RoundLaws
mod GroupLaws
mod StopLaws
mod LaneLaws
mod CloseLaws
mod SameLocked
mod EndedLaws
mod PollLaws
mod WorkLaws
mod FailedLaws
pub mod Sends
pub mod SentLists
pub mod SentEvents
pub mod SentRounds
pub mod TakenRounds
mod OpeningLaws
pub mod SentWhole
