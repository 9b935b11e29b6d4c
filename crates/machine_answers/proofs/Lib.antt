mod PathLens
mod KeptLaws
mod CommitLaws
pub mod ReplyLaws
mod FirstLaws
mod HandleLaws
mod ListingLaws
