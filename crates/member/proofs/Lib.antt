-- The laws of `member`.
pub mod Finding
pub mod Counting
pub mod Apart
