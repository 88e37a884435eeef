pub mod Bytes
pub mod Good
pub mod Changes
pub mod Rows
pub mod Moves
pub mod Loop
pub mod Whole
