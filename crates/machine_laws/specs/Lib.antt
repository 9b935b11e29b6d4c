pub mod ServedRuns
