pub mod Merging
pub mod Words
