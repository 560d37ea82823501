pub mod Parts
pub mod Sections
pub mod Laid
pub mod Named
