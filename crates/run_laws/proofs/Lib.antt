pub mod Alike
mod AloneLaws
pub mod AmongLaws
mod AnewBack
mod AnewLaws
mod AnewRuns
pub mod AskedInOrder
pub mod Back
pub mod BackLaws
mod BearingLaws
mod BetweenLaws
mod BufferLaws
mod BufferStays
mod BufferedMoves
mod BufferedBears
mod BufferedSites
pub mod CallEnds
mod PartMoves
mod ContentMoves
mod CallMoves
pub mod CallRequests
pub mod AvoidedNames
mod CallSites
pub mod CutLaws
mod DeferredLaws
mod FirstLaws
mod Fixing
mod FlushedLaws
mod FlushedReads
pub mod GrantAtLaws
mod GrantLaws
mod HandleLaws
pub mod JournalCalls
pub mod KeepsFilesLaws
pub mod LaidLaws
mod LaneBackLaws
pub mod LaneCalls
mod LaneDirectories
pub mod LaneLaws
mod LeftLaws
pub mod Lines
mod ListLaws
mod ListedLaws
mod ListsFlushes
pub mod MoveWords
pub mod NamedLaws
mod NodeLaws
pub mod OffRequests
pub mod OneText
pub mod OpenLaws
mod OpenedLaws
pub mod OwnLaws
mod Parts
mod PassingLaws
mod PathLaws
pub mod PieceLaws
pub mod Placed
pub mod PlainRuns
mod PutLaws
pub mod ReadLaws
pub mod HandedLanes
pub mod ReadsBackLaws
pub mod RoundTripLaws
mod RunBackLaws
pub mod RunLaws
pub mod SentLaws
pub mod ServedSteps
pub mod StayLaws
pub mod StepLaws
mod Told
mod TreeAtLaws
pub mod UseLaws
pub mod UsedLaws
mod WholeMoves
pub mod WholeReadLaws
pub mod WholeRunSent
pub mod WholeWriteLaws
mod WindowPieces
pub mod WindowReads
pub mod WriteLaws
