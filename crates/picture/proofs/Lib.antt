pub mod Drawn
pub mod Passing
pub mod Standing
pub mod Words
pub mod Whole
