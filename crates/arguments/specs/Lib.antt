pub mod Words
pub mod Options
pub mod Command
pub mod Request
pub mod Meant
pub mod Examples
