pub mod Closing
pub mod Joining
pub mod Words
