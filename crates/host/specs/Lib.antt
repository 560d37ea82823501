pub mod Status
pub mod StatusMeant
