pub mod Lists
pub mod Stays
pub mod Theorems
pub mod ShutsOut
