pub mod Header
pub mod Sections
