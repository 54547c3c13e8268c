pub mod Place
pub mod Listed
pub mod Cursor
