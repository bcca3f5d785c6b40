pub mod Job
pub mod Records
