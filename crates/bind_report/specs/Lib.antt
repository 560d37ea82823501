pub mod Words
pub mod Json
pub mod Table
pub mod Meant
pub mod Aligned
pub mod Sample
