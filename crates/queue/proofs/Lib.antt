pub mod Shift
pub mod Views
