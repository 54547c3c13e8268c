pub mod Resolved
pub mod Numbers
pub mod Telling
pub mod Bounds
