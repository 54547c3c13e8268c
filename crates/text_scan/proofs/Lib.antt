pub mod Arrays
pub mod Keys
pub mod Objects
pub mod Results
pub mod Values
