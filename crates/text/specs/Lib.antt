-- The definitions of `text`.
pub mod Rfc3629
pub mod Utf8
pub mod Classes
pub mod Texts
pub mod Runs
