-- The laws of `seeking`.
pub mod Narrowing
pub mod Finding
