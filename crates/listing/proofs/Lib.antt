mod Rows
mod Lines
mod Texts
pub mod Anywhere
pub mod Meaning
