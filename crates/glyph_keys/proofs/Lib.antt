pub mod Ones
pub mod Keying
