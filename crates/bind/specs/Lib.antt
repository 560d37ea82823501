pub mod Reading
pub mod Found
pub mod Binding
pub mod Entries
pub mod Rig
pub mod Edges
pub mod Meaning
pub mod Adding
