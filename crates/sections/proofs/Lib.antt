pub mod Cutting
pub mod Standing
pub mod Named
