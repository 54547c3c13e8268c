pub mod Holding
pub mod Opening
