pub mod Spelling
pub mod Written
pub mod Reading
pub mod Rows
pub mod Damage
pub mod Gate
pub mod FrameView
pub mod Laws
