pub mod References
pub mod Matches
pub mod Readings
