pub mod Index
pub mod Steps
pub mod Meaning
