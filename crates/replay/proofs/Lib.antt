pub mod Calls
pub mod Stepping
pub mod Lines
pub mod Pieces
pub mod Listings
pub mod Prints
