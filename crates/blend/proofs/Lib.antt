pub mod Order
pub mod Coding
