pub mod Guid
mod Meant
