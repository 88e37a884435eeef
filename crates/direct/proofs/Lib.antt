pub mod MixerInputs
pub mod CurveNumber
pub mod Placed
pub mod WholeLoads
