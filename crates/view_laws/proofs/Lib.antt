mod DoingLaws
mod Bytes
mod BlockReads
mod KeptBlocks
mod Gathering
mod GetLaws
mod PutTrees
mod PutLaws
mod ViewedLaws
mod SlotCalls
mod CallsDone
mod ReadsDone
mod WritesDone
mod EachCall
mod JournalSteps
mod JournalEnds
mod JournalDid
pub mod PlainLaws
