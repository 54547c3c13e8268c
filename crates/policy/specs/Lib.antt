pub mod Chain
pub mod Pairs
pub mod Judge
pub mod Exact
