pub mod Meaning
pub mod Bodies
pub mod Asking
pub mod Ending
