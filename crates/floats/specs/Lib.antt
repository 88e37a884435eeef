pub mod Arithmetic
pub mod Floats
