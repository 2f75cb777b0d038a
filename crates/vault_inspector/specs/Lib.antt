pub mod Counts
pub mod Figures
pub mod Checks
pub mod Texts
pub mod Output
pub mod States
pub mod Found
