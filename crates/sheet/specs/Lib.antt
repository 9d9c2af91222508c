pub mod Faults
pub mod Lines
pub mod Headings
pub mod Texts
pub mod Sheets
