pub mod Same
pub mod Store
