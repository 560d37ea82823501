pub mod Left
pub mod Widths
pub mod Meaning
pub mod Lines
pub mod Aligned
pub mod Sample
