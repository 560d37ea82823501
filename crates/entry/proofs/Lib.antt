pub mod Laws
pub mod Claims
pub mod DirectClaims
pub mod Direct
pub mod Bounded
pub mod BoundedMeant
pub mod Alike
pub mod Theorems
