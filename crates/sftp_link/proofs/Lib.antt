mod FramesPassed
mod ScriptSteps
pub mod Telling
