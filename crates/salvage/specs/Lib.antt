pub mod Both
pub mod Salvage
pub mod Cover
pub mod Meaning
