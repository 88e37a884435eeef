pub mod Sampling
pub mod Building
pub mod Inner
