pub mod Lists
pub mod Searching
pub mod Inserting
pub mod Finding
pub mod Indexing
pub mod Parts
