pub mod Typed
pub mod Sieving
pub mod Lists
