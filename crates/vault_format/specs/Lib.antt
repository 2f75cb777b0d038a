pub mod Snapshot
pub mod Places
pub mod Claims
pub mod Files
pub mod Faults
pub mod Adds
pub mod Laws
