pub mod Pieces
pub mod Traces
