pub mod Numbers
pub mod Messages
pub mod ChannelStates
pub mod LogBytes
pub mod Channels
pub mod Handshakes
pub mod Rows
