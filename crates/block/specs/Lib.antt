pub mod Bytes
pub mod Block
pub mod Clauses
pub mod Read
pub mod Check
