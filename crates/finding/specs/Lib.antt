pub mod Find
pub mod Written
pub mod Meaning
