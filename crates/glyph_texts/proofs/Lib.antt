pub mod Texts
pub mod Plain
