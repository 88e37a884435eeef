pub mod Turns
pub mod Machine
pub mod Lists
