pub mod Questions
pub mod Longest
