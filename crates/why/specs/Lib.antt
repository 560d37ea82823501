pub mod Reasons
pub mod Meant
pub mod Shown
