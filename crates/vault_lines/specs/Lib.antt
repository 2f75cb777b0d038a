pub mod Limits
pub mod Reading
pub mod Words
pub mod Items
pub mod Keywords
pub mod Grammar
pub mod Texts
pub mod Spelling
