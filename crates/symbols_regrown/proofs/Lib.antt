pub mod Around
pub mod Faithful
