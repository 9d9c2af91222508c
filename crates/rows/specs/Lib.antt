pub mod Faults
pub mod Reasons
pub mod Places
pub mod Rows
pub mod OrderCalls
pub mod ReadCalls
