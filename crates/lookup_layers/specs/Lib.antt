pub mod Layers
pub mod Reading
