pub mod Heads
pub mod Names
