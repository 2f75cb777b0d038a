pub mod Limits
pub mod Spelling
pub mod Script
pub mod Talk
pub mod Waiting
pub mod Saying
pub mod Rows
pub mod ScriptLaws
