mod PathLaws
mod CutLaws
mod TextLaws
mod WalkLaws
mod ActLaws
mod ApartLaws
pub mod DoneLaws
mod JobPathLaws
mod LinkLaws
mod StemLaws
