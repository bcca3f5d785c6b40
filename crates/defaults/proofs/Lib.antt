-- The laws of `defaults`.
pub mod Judging
