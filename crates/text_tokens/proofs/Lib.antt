pub mod Follow
pub mod Tokens
