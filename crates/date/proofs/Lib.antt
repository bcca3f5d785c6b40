pub mod Days
pub mod Shaping
