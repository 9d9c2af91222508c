pub mod Layout
pub mod Bodies
pub mod Places
