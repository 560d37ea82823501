pub mod Finding
pub mod Listed
pub mod ShutsOut
