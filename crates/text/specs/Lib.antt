pub mod Question
pub mod Accepted
pub mod Answer
pub mod Keys
pub mod Places
