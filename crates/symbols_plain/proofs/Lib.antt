pub mod Alike
pub mod Written
pub mod OneToOne
