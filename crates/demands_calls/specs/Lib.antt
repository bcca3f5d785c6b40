pub mod Growth
pub mod Columns
