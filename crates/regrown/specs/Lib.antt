pub mod Regrown
pub mod Tells
pub mod ShutsOut
