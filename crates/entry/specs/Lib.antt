pub mod Entry
pub mod Claims
pub mod DirectClaims
pub mod Walk
pub mod Bounded
pub mod BoundedMeant
pub mod Theorems
pub mod Alike
