pub mod Voice
pub mod Levels
