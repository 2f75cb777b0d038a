pub mod Counts
mod Taken
pub mod Ends
pub mod Groups
pub mod Requests
pub mod Sends
