pub mod Reply
pub mod Linked
pub mod Stretches
pub mod Writes
