pub mod Follow
pub mod Path
