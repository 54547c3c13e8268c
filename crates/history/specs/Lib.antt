pub mod Calls
pub mod Ledger
pub mod Reports
pub mod Demand3
