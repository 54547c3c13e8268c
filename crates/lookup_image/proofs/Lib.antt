pub mod Layers
pub mod Linked
