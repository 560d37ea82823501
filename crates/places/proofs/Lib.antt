pub mod Attributes
pub mod Refactors
pub mod Direct
pub mod Single
pub mod Found
