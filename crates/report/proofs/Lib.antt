pub mod Going
pub mod Tallies
pub mod Digits
pub mod Widths
pub mod Aligned
pub mod Lines
pub mod Texts
pub mod Sample
