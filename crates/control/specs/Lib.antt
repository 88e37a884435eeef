pub mod Registers
pub mod Block
pub mod Widening
