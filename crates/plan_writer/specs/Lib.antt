pub mod Answers
pub mod Contract
