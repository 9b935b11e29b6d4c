mod Steps
pub mod TraceLaws
pub mod TextLaws
mod HexLaws
