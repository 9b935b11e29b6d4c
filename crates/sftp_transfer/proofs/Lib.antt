mod WindowLaws
pub mod GoLaws
