pub mod Near
pub mod Lines
pub mod Shown
pub mod Versions
pub mod Lengths
pub mod Replies
