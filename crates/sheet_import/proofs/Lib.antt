pub mod Texts
pub mod StringsRead
pub mod Written
pub mod CellTexts
pub mod Followers
pub mod Sizes
pub mod Bulk
pub mod Putting
pub mod Ready
mod Halves
pub mod Meaning
