-- The laws of `index`.
pub mod Arranging
pub mod Storing
