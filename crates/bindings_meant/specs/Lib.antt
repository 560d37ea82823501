pub mod Cases
pub mod Longest
pub mod Leads
pub mod Reaches
pub mod Entries
pub mod Places
pub mod Nesting
