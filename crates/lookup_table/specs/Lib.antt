pub mod Placed
pub mod Linking
