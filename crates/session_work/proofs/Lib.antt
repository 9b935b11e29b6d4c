pub mod AddedLaws
mod AddedSpends
mod BegunLaws
mod BufferLaws
pub mod CallsLaws
mod CancellingLaws
mod ClosingLaws
mod Contents
pub mod Counting
pub mod Entries
mod Exchanges
pub mod FaultLaws
mod FewIds
mod FreshLaws
mod LeftLaws
mod LettingLaws
mod NotingLaws
mod Refusals
mod Remaining
pub mod ReportLaws
mod TurningLaws
mod UnnotedLaws
mod WeightLaws
mod AskLaws
mod Begun
mod Polling
mod Holding
mod Polled
mod TurnLaws
mod Turned
mod Awaiting
mod AskRests
mod EndRests
mod Ranges
mod Rests
mod WentLaws
mod Forgotten
mod Flushed
mod Unheld
mod GivenUp
mod LettingGo
mod OneByOne
mod Spending
mod Growth
mod EntrySpends
mod TurnSpends
