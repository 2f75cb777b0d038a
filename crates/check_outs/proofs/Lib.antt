pub mod Steps
pub mod AllDrafts
pub mod OwnDrafts
pub mod Saved
pub mod Weighing
pub mod PutIn
pub mod Sends
