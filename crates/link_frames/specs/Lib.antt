pub mod Causes
pub mod Reading
pub mod Gathering
pub mod ExchangeRows
