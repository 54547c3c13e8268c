pub mod Linking
pub mod Images
pub mod Walking
pub mod Placing
pub mod Joining
