pub mod Links
pub mod Following
