pub mod Listing
pub mod Pairs
pub mod Reported
pub mod Writing
