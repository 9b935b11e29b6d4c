pub mod DoingLaws
pub mod BoundLaws
pub mod CountLaws
mod AddedLaws
pub mod EndedLaws
mod CacheLaws
pub mod LengthLaws
mod ChoiceLaws
mod ListLaws
