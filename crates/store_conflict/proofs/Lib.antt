pub mod Clashing
pub mod Lent
pub mod Walking
