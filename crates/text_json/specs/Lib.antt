pub mod Bytes
pub mod Syntax
pub mod Grammar
pub mod Read
pub mod Content
pub mod Scan
pub mod Size
