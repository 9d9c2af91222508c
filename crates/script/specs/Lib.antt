pub mod Numbers
pub mod Errors
pub mod Entries
pub mod Lines
pub mod Words
