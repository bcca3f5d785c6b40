-- The laws of `position`.
pub mod Judging
