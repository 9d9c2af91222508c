pub mod Refusals
pub mod Items
pub mod Lists
pub mod Stamps
pub mod Codes
pub mod Fitting
pub mod Texts
