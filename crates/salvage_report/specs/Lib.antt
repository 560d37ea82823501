pub mod Dropped
pub mod Runs
pub mod Meaning
