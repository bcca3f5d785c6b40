pub mod Calling
pub mod Judged
