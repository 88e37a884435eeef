pub mod Good
pub mod Demand3
