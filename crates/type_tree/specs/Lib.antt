pub mod Joined
pub mod Marks
pub mod Node
pub mod Counts
pub mod Meaning
pub mod Levels
pub mod Sample
