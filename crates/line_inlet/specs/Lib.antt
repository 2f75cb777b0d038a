pub mod Inflow
pub mod Reading
pub mod Incoming
