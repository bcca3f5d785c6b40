pub mod Numbered
pub mod Chains
