pub mod Chaining
pub mod Keeping
