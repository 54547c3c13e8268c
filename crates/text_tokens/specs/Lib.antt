pub mod Scanned
pub mod Summary
