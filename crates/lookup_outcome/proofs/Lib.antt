pub mod Outcomes
pub mod Meeting
pub mod Checking
pub mod Entries
pub mod Fates
pub mod Writing
