-- The laws of `placing`.
pub mod Settling
pub mod Together
