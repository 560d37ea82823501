pub mod Alone
pub mod Listed
