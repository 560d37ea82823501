pub mod Layout
pub mod Meant
