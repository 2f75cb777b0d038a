pub mod Index
pub mod Added
