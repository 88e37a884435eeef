pub mod Most
pub mod Placed
pub mod SamplePoint
