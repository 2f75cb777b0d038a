pub mod Logs
pub mod AtAccount
