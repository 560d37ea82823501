pub mod Ordered
pub mod Lines
pub mod Tables
pub mod Meaning
