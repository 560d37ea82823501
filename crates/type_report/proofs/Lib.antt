pub mod Trees
pub mod Levels
pub mod Sample
