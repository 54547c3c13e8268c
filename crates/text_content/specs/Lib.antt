pub mod Value
pub mod Canonical
pub mod Fault
pub mod Distinct
