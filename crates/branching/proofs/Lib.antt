pub mod Laws
pub mod Going
pub mod Tallies
pub mod Tables
pub mod Meant
