pub mod TickRow
