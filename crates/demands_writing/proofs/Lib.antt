pub mod Accepting
pub mod Writer
pub mod Writing
pub mod Rows
pub mod Positions
