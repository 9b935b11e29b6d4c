mod Ends
mod LimitsLaws
mod InLanes
mod Steps
mod FirstLaws
pub mod LineLaws
pub mod SetupLaws
mod CallLaws
mod LaneLaws
mod ScriptLaws
mod ServerWordLaws
