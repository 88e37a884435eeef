pub mod Values
pub mod Tables
pub mod Drives
