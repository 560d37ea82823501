pub mod Json
pub mod Report
pub mod Cells
pub mod Table
pub mod Aligned
pub mod Meant
pub mod Tallies
pub mod Sample
