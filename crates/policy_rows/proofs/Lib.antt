pub mod Bits
pub mod Joining
pub mod Naming
pub mod Rows
