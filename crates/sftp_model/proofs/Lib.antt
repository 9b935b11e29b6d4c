mod Joining
pub mod FieldBacks
pub mod ReplyBacks
pub mod RequestBacks
