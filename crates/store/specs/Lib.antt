pub mod Faults
pub mod Meaning
pub mod Tests
pub mod Outcomes
pub mod Choice
pub mod Room
pub mod Reasons
