pub mod Json
pub mod Levels
pub mod Sample
