pub mod Integrator
pub mod Tried
