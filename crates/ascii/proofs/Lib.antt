-- The laws of `ascii`.
pub mod Each
