pub mod Laws
pub mod Bounds
pub mod Smallest
pub mod Meaning
pub mod Only
