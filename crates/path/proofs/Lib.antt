pub mod Laws
pub mod Shorter
pub mod Meaning
pub mod Texts
