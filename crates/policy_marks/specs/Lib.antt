pub mod Marks
pub mod Pairs
pub mod Words
