pub mod Bits
pub mod Levels
pub mod Position
pub mod Gain
