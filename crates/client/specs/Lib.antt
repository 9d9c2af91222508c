pub mod Publish
pub mod Deep
pub mod Words
