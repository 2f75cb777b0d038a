pub mod Modes
pub mod Groups
