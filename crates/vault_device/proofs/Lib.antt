pub mod Torn
pub mod Moments
pub mod Picks
pub mod Gates
mod Parts
mod Done
mod Since
