pub mod Marks
pub mod Worked
pub mod Named
