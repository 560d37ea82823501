pub mod Strings
pub mod Import
pub mod ImportMeant
