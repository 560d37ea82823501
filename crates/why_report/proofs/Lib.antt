pub mod Meant
pub mod Written
