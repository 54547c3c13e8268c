-- The laws of the crate, and what its proofs cite.
pub mod Append
pub mod Ascii
pub mod Between
pub mod Chars
pub mod Encodings
pub mod Examples
pub mod Forms
pub mod Place
pub mod Ranges
pub mod Steps
