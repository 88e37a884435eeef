pub mod Replies
pub mod Probe
pub mod Surface
pub mod Steps
pub mod Calls
pub mod Cores
