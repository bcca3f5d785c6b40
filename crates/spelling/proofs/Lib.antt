pub mod Parsing
pub mod Putting
