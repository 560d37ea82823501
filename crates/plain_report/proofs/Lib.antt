pub mod Pieces
pub mod Parts
pub mod Meaning
pub mod Texts
