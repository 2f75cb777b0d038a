pub mod Behind
pub mod Sizes
pub mod Takes
pub mod Fields
pub mod Effects
mod ItemLoop
mod Sealed
pub mod Images
pub mod OneSpelling
pub mod Sends
