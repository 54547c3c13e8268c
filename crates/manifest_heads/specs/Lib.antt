pub mod Contents
pub mod Placed
pub mod Searches
pub mod Heads
