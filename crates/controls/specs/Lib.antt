pub mod Controls
pub mod Judging
