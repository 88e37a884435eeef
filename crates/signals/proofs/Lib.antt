pub mod Masks
pub mod Summed
pub mod Fits
pub mod Told
pub mod ZeroEnvelope
