pub mod AskHolds
pub mod AskLaws
mod AskTied
pub mod AskedLaws
mod BareSites
pub mod BudgetLaws
pub mod CameLaws
mod CancelLaws
pub mod CloseLaws
pub mod CoreLaws
pub mod CountedLaws
pub mod DueLaws
pub mod EndHolds
pub mod EndLaws
pub mod ExchangeLaws
pub mod FilledLaws
mod FlushLaws
pub mod ForgetLaws
pub mod FreeLaws
mod GoesLaws
mod GoneLaws
pub mod HandleLaws
mod HeldLaws
pub mod HoldLaws
pub mod KeptLaws
pub mod LaneLaws
mod LetGoTied
mod LettingLaws
pub mod OrderLaws
pub mod OtherLaws
pub mod PendLaws
pub mod PlaceLaws
pub mod PollLaws
pub mod ReplyLaws
pub mod RestLaws
mod RunningLaws
pub mod SameLaws
mod SendLaws
pub mod SessionLaws
pub mod StartLaws
mod StepLaws
pub mod CancelSteps
pub mod CloseSteps
pub mod LettingSteps
pub mod TableLaws
pub mod TakeDues
mod TakeHolds
pub mod TransferLaws
pub mod TurnLaws
