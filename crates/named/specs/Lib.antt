pub mod Named
pub mod Kinds
