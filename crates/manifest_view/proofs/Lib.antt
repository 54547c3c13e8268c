pub mod Arrays
pub mod Instances
pub mod Listing
pub mod Matched
pub mod Searching
pub mod SelfNames
