pub mod MoveLaws
pub mod SlotLaws
mod PathLaws
mod FileLaws
mod OpenLaws
mod BufferLaws
mod WholeLaws
pub mod CallLaws
pub mod CancelLaws
pub mod FitLaws
pub mod CountLaws
mod BufferCounts
mod CallCounts
pub mod Among
pub mod Spans
pub mod SpanLaws
pub mod Tiles
mod TileSteps
mod LastTile
mod OpenReads
pub mod WindowAsks
mod WindowLaws
pub mod WindowSteps
pub mod OpenSteps
pub mod AskedReads
pub mod AskedLaws
mod CallRows
pub mod LeftSites
mod LeftCalls
mod LimitLaws
mod LimitWrites
mod LimitBuffers
pub mod LimitEnds
mod ReadAsks
pub mod ReadEnds
mod Weights
