pub mod Opened
pub mod Placed
pub mod Shared
