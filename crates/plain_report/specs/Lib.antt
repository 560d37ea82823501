pub mod Told
pub mod Departure
pub mod Parts
pub mod Meaning
pub mod Texts
