pub mod WireSteps
pub mod Wires
pub mod Buffers
pub mod Duplex
pub mod Streams
