pub mod Kept
pub mod Widening
pub mod Meaning
