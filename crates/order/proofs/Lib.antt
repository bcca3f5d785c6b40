-- The laws of `order`.
pub mod Comparing
pub mod Ordering
