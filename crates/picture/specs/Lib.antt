pub mod Rows
pub mod Show
pub mod Seen
pub mod Meant
pub mod Words
pub mod Whole
