pub mod Values
pub mod Told
pub mod Names
pub mod Words
pub mod Shown
pub mod ValuesMeant
pub mod Alike
pub mod Meant
