pub mod CheckOuts
pub mod Typed
pub mod Closed
pub mod Parts
