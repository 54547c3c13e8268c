pub mod Answer
pub mod Asks
pub mod Manifest
pub mod Names
pub mod Number
pub mod Opened
