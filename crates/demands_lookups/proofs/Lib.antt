pub mod Lookups
pub mod Defaults
pub mod Index
pub mod Refusals
pub mod Positions
pub mod Spelled
