pub mod Words
pub mod Growth
pub mod Records
pub mod OwnMaps
pub mod Typed
