-- The laws of `sorting`.
pub mod Inserting
pub mod Preceding
pub mod Settling
