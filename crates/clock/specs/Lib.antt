pub mod Transients
pub mod Clock
