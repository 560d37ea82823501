pub mod Writing
pub mod Layout
pub mod Checks
pub mod One
pub mod Meant
pub mod Owned
