pub mod InString
pub mod Cursor
