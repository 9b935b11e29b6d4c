mod Alone
mod AloneTurns
mod AloneReplies
mod FourTurns
mod CallKinds
mod Uncancelled
mod Building
mod Sums
mod Sizes
mod CallStands
mod WritesOn
mod LastCalls
mod CallAsks
pub mod RunEnds
mod GrowingRuns
mod ReadEnds
mod WriteEnds
mod EndsWell
mod Directories
mod FirstDirectories
pub mod PathLengths
mod ReadsThere
pub mod PlainRunLaws
