mod BegunLaws
mod Asking
mod BufferAsking
mod BufferSets
mod Deferring
mod Fewer
mod Filling
pub mod FlushLaws
mod Flushes
mod Going
pub mod GoingLaws
pub mod InRange
mod Keeping
mod Leaving
mod LeftLaws
pub mod OwnAsking
mod OwnLaws
pub mod SlotSets
mod WindowMoves
mod WindowReplies
