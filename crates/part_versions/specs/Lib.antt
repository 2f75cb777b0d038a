pub mod Cuts
pub mod Appended
pub mod Kept
pub mod Taken
pub mod Rooms
