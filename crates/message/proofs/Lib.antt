pub mod Writing
pub mod Filling
