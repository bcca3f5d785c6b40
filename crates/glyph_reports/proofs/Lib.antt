pub mod Telling
pub mod Written
