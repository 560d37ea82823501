pub mod Turn
pub mod Within
pub mod Stands
pub mod One
pub mod True
pub mod Chain
pub mod Explained
