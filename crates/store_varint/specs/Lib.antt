pub mod Varint
pub mod Reading
