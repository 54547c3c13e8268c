pub mod CharSteps
pub mod Digits
pub mod Weights
pub mod Plain
pub mod Encoded
pub mod Pairs
