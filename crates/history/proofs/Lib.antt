pub mod Stepping
pub mod Keeping
pub mod Accepting
pub mod Ordering
pub mod Reporting
pub mod Demand3
