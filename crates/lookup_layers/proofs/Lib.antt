pub mod Entries
pub mod Listing
pub mod Reading
pub mod Walking
