pub mod Asked
pub mod Groups
pub mod Keyed
pub mod Objects
