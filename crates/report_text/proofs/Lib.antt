pub mod Marks
pub mod Keeping
pub mod Taking
pub mod Feeding
pub mod Appending
pub mod Decimals
pub mod Dividing
