pub mod Captures
pub mod Meaning
