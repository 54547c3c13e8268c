pub mod Objects
pub mod Walks
