pub mod Laws
pub mod Entry
pub mod Laid
pub mod Done
pub mod Meant
pub mod Going
