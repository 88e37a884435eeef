pub mod Laws
pub mod Placed
pub mod AtRest
