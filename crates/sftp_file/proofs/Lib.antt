mod OptionLaws
pub mod BodyLens
pub mod Granting
pub mod Starting
mod OpenLaws
mod CloseLaws
mod Cutting
mod CopyLaws
mod SliceLaws
mod WriteLaws
pub mod Steps
pub mod GatherLaws
