pub mod Keys
pub mod Repeats
