pub mod UnchangedFiles
pub mod FileRows
