pub mod Pairs
pub mod Lines
pub mod Pieces
pub mod Capitals
pub mod Spelt
pub mod Laid
pub mod Trips
