pub mod Keys
pub mod Members
pub mod Merges
pub mod Sorts
pub mod Orders
pub mod Halves
pub mod Repeats
