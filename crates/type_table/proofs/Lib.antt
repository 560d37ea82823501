pub mod Words
pub mod Rows
pub mod Levels
pub mod Aligned
pub mod Sample
