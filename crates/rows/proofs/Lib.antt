pub mod Below
pub mod Changed
