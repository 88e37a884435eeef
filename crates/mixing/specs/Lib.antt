pub mod Topology
pub mod Routing
pub mod Line
