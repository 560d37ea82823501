pub mod Uploads
pub mod Symbols
pub mod Members
pub mod Bound
