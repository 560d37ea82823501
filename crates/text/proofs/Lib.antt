pub mod Table
pub mod Utf8
pub mod Laws
pub mod Byte
pub mod Back
pub mod Theory
pub mod Faults
