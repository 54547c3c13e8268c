pub mod Chains
pub mod Exact
pub mod Admitting
pub mod Reordering
pub mod Judging
