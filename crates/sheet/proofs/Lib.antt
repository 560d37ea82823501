pub mod Escapes
pub mod Pieces
pub mod Meant
pub mod Exports
