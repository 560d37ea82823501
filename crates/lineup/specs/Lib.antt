pub mod LineUp
pub mod Symbols
pub mod Fields
pub mod Types
pub mod Refusals
