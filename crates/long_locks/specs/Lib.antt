pub mod Keyed
pub mod Lines
pub mod LongClaims
pub mod InLine
