pub mod Named
pub mod Numbering
pub mod Opened
pub mod Placing
