pub mod Arithmetic
pub mod Ladder
pub mod Calls
