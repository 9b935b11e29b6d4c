pub mod Reads
pub mod Tickets
pub mod Hearing
pub mod WholeReads
