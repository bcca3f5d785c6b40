pub mod Judging
pub mod Costing
