pub mod Listing
pub mod Admitted
