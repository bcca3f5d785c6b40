pub mod Trying
pub mod Words
