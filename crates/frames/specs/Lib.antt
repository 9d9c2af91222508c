pub mod Faults
pub mod Family
pub mod Requests
pub mod Replies
pub mod Serving
pub mod Words
