pub mod Head
pub mod Named
