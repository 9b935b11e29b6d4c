pub mod Logs
pub mod Exchanges
pub mod Payloads
pub mod ReceivedPackets
pub mod Calls
pub mod DataPacket
pub mod Openings
