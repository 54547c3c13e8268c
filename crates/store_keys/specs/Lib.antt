pub mod Keys
pub mod Clash
pub mod Signed
