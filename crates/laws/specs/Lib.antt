pub mod Any
pub mod Order
pub mod Sort
pub mod Span
pub mod Writes
