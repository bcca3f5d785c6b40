pub mod Numbered
pub mod Comparing
pub mod Chaining
