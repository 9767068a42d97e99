pub mod Decimal
pub mod Ending
pub mod Lines
pub mod Texts
