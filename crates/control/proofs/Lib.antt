pub mod Laws
pub mod Block
pub mod Valid
pub mod RoundTrip
pub mod Widening
