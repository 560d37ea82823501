pub mod Written
pub mod OneToOne
