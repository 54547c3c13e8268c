pub mod ByteTests
pub mod Places
pub mod Words
pub mod Grammar
pub mod Items
