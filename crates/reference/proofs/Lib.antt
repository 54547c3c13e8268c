pub mod Forms
pub mod Names
pub mod Steps
pub mod References
