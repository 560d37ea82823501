pub mod First
pub mod Parts
pub mod Differences
pub mod Meant
