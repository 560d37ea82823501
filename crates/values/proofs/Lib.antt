pub mod Told
pub mod Bits
pub mod Words
pub mod Written
pub mod Same
