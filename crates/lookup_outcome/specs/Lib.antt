pub mod Outcome
pub mod Resolving
