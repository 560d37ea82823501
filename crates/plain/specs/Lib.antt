pub mod Plain
pub mod Form
pub mod Meaning
