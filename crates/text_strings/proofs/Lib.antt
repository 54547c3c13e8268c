pub mod Contents
pub mod Cursors
pub mod Escapes
pub mod Positions
pub mod Views
