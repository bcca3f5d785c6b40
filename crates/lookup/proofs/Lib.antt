-- The laws of `lookup`.
pub mod Looking
