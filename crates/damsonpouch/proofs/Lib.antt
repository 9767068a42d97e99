pub mod Replies
pub mod Linking
pub mod Stretches
pub mod Writes
