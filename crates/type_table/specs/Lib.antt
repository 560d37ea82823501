pub mod Cells
pub mod Table
pub mod Aligned
pub mod Levels
pub mod Sample
