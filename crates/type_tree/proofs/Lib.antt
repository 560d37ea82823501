pub mod Marked
pub mod Stepping
pub mod Counting
pub mod SubItems
pub mod Levels
