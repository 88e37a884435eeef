pub mod Signals
pub mod Lent
pub mod Collecting
