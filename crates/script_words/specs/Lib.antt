pub mod Lines
pub mod Refusals
pub mod Fields
pub mod WordRows
