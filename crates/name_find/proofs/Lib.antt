pub mod Looks
pub mod Search
pub mod Named
pub mod Meaning
pub mod Useless
