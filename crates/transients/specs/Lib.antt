pub mod Transients
pub mod Block
