mod WalkLaws
pub mod OrderLaws
pub mod PathLaws
mod FileLaws
mod WayLaws
pub mod NumberLaws
mod SortedLaws
