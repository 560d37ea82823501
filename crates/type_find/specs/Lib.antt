pub mod Find
pub mod Meaning
