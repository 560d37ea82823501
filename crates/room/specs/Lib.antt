pub mod Room
pub mod Meaning
