pub mod Address
pub mod Meaning
