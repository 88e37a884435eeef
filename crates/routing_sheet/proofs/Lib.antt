pub mod Laws
pub mod Once
pub mod Figures
