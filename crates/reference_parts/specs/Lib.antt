pub mod Hex
pub mod Parts
pub mod Readings
