pub mod Front
pub mod Turns
pub mod Ascending
pub mod Present
pub mod Differing
pub mod Nothing
pub mod Unmoved
pub mod Meant
