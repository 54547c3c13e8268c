pub mod Char
pub mod Scalar
pub mod Utf8
