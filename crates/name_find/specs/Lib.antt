pub mod Find
pub mod Looks
pub mod Meaning
