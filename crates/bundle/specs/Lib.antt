pub mod Layout
pub mod Opening
pub mod Reading
