pub mod Alike
pub mod Orders
pub mod Twins
