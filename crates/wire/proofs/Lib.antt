pub mod Laws
pub mod Floats
pub mod Signed
pub mod First
pub mod Every
pub mod Magnitude
pub mod Sixteens
