mod Prefix
mod Suffix
mod Text
mod Texts
pub mod Parts
pub mod Lists
mod Numbers
