pub mod Laws
pub mod Steps
pub mod Meaning
pub mod Accepted
