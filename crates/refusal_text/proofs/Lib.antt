mod Short
mod Meant
mod Words
