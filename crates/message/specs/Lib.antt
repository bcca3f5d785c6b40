pub mod Contract
pub mod Filled
