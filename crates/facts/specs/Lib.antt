pub mod Facts
pub mod Told
pub mod Words
