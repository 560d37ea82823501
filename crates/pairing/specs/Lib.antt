pub mod Pieces
pub mod Pairs
pub mod Rows
pub mod Told
pub mod Rules
pub mod Alike
