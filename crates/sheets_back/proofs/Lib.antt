pub mod Written
pub mod Laid
pub mod Trip
pub mod Kept
pub mod Again
pub mod Entries
