pub mod Words
pub mod Reported
pub mod Calls
