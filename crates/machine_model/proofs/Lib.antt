mod HasLaws
pub mod PairLaws
pub mod NameLaws
pub mod PutLaws
pub mod ChangeLaws
pub mod LossLaws
pub mod WellFormedLaws
pub mod GrantingLaws
pub mod OpenLaws
pub mod StatusLaws
pub mod AnswerLaws
pub mod WithinLaws
mod OnceLaws
mod TreeLaws
mod MoveLaws
pub mod StayingLaws
pub mod FitLaws
pub mod ListingLaws
pub mod FirstFits
pub mod FirstTrees
pub mod FirstFiles
pub mod ReplyLaws
pub mod ReplyFits
