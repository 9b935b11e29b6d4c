pub mod Acts
pub mod Numbers
pub mod Links
pub mod Words
pub mod WordRows
