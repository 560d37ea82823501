pub mod Told
pub mod Plain
pub mod Kind
pub mod Theorems
