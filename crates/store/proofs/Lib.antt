pub mod Choosing
pub mod Passing
pub mod Room
pub mod Parts
pub mod Zeros
pub mod Firsts
