pub mod Streams
pub mod StreamRows
pub mod Parts
pub mod Downloads
pub mod Uploads
