pub mod Foreign
pub mod Own
