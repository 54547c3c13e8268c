pub mod Founds
pub mod Items
pub mod Placing
