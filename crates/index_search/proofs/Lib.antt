-- The laws of `index_search`.
pub mod Stepping
pub mod Looking
pub mod Members
pub mod Theorems
