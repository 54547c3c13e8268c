pub mod NumberSteps
pub mod Numerals
