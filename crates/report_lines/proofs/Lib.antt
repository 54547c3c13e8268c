pub mod Loading
pub mod Printing
