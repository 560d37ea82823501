pub mod Told
pub mod Meant
pub mod Words
