pub mod Containers
pub mod Rows
