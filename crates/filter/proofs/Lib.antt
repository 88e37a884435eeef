pub mod Laws
pub mod Demand3
pub mod Cases
pub mod MixerInputs
