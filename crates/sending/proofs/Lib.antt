pub mod Collecting
pub mod Sending
