pub mod Path
pub mod Meaning
pub mod Texts
