pub mod Indexing
pub mod Naming
pub mod Placing
