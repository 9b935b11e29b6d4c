pub mod Patterns
pub mod Matches
pub mod Filters
pub mod Rows
pub mod Rules
pub mod Shards
pub mod FilterRows
