pub mod Changes
pub mod MachineState
pub mod WaitingFrames
pub mod MachineRows
