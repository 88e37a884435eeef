pub mod Laws
pub mod Words
pub mod Parts
pub mod Alike
