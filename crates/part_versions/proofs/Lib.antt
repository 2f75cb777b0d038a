pub mod Cuts
pub mod Shelving
pub mod Rooms
pub mod Sends
