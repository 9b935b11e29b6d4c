pub mod Lowering
mod Sending
mod Getting
mod Draining
mod Taking
mod Opening
pub mod Waiting
mod Moving
mod Listing
mod WholeWaiting
mod WriteWaiting
pub mod Calling
mod HandleCalling
mod Faults
mod KeptFaults
mod FileCalling
pub mod DirCalling
mod Sequences
mod PathCuts
mod TreeMaking
mod Walking
mod TreeRemoving
