pub mod Whole
pub mod Walked
pub mod Back
pub mod ShutsOut
pub mod Grown
