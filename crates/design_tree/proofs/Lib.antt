pub mod Children
pub mod Ways
pub mod Indexed
pub mod Copies
pub mod Sends
