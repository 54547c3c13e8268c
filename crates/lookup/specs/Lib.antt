pub mod Resolve
pub mod Resolved
