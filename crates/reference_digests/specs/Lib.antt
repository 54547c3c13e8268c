pub mod Algorithms
pub mod Digests
pub mod Readings
