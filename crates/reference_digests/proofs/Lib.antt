pub mod Bytes
pub mod Comparing
pub mod Forms
pub mod Digests
pub mod Hex
