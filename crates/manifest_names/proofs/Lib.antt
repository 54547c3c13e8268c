pub mod Nexts
pub mod Walking
pub mod Objects
pub mod Founds
pub mod Elsewhere
pub mod Keying
