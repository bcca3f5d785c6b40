pub mod Calls
pub mod Owned
pub mod Turns
