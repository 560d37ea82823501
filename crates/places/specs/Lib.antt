pub mod Places
pub mod Entry
pub mod Kind
pub mod Alone
pub mod Found
