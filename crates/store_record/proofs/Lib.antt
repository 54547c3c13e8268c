pub mod Ids
pub mod Reading
pub mod Records
pub mod Sharing
pub mod Stores
pub mod Surveying
pub mod Walks
