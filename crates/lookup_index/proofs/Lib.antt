pub mod Marking
pub mod Indexing
