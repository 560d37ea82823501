pub mod Slice
pub mod Outcome
mod Meant
