pub mod Any
pub mod Searching
pub mod Heading
