pub mod Prices
pub mod Contract
