pub mod ShutOut
pub mod Cutting
pub mod Joined
