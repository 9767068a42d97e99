pub mod Tags
pub mod Parts
pub mod Rows
pub mod Bodies
pub mod Answers
pub mod Readers
pub mod Found
