pub mod Naming
pub mod Limiting
