pub mod Outcomes
pub mod Holding
pub mod Calling
pub mod Running
