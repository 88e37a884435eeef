pub mod Lent
pub mod Core
pub mod Plain
pub mod Lists
