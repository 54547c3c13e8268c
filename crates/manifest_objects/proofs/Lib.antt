pub mod Agreement
pub mod Placing
pub mod Listing
pub mod FoundObjects
pub mod Reading
pub mod Naming
pub mod Standing
