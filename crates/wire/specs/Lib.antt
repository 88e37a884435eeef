pub mod Wire
pub mod First
pub mod Inner
pub mod Text
