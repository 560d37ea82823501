pub mod Meaning
pub mod Useless
