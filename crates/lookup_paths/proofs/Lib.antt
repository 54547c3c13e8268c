pub mod Defining
pub mod Ends
pub mod Objects
pub mod Pigeonhole
pub mod Steps
