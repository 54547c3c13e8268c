pub mod Accepting
pub mod Bounds
pub mod Forms
pub mod Images
pub mod Loading
pub mod Numbering
pub mod Offsets
pub mod Steps
