pub mod Lent
pub mod Halved
