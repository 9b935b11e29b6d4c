mod StreamLaws
mod OneFile
pub mod PartLaws
mod CancelLaws
mod Taking
mod AskLaws
mod PollLaws
mod PushLaws
mod StatusLaws
