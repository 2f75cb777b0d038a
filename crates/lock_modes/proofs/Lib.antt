pub mod Tables
pub mod Joins
pub mod GroupModes
