pub mod Members
pub mod Space
