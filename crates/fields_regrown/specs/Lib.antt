pub mod Kind
pub mod Theorems
