pub mod Parts
pub mod ServerWords
pub mod Setup
pub mod CanRun
pub mod Scripts
pub mod ScriptRows
pub mod CallLineRows
