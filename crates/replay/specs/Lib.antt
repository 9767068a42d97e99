pub mod Replay
pub mod Pieces
pub mod Listings
pub mod Prints
