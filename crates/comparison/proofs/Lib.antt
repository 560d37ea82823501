pub mod Meant
pub mod Lines
pub mod Silent
pub mod TableWords
pub mod Wide
pub mod Sample
pub mod Untold
