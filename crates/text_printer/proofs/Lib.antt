pub mod Contents
pub mod Escaped
pub mod Runs
