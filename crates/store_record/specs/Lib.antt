pub mod Ids
pub mod Image
pub mod Record
pub mod Store
pub mod Reading
