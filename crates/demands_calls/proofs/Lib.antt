pub mod Tables
pub mod Stated
pub mod Limits
pub mod Columns
