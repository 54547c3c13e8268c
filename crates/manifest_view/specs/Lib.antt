pub mod Entries
pub mod Wanted
