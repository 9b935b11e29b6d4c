mod Splits
mod Numbers
mod Letters
pub mod HexLaws
pub mod Counts
mod PartLaws
pub mod FitCounts
