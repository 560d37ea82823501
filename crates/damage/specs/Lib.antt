pub mod Others
pub mod Stays
pub mod Salvaged
pub mod Theorems
pub mod ShutsOut
