pub mod Routing
pub mod Facts
pub mod Laws
