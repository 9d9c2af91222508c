pub mod Scans
pub mod Counts
pub mod Writes
pub mod Outcomes
pub mod Steps
