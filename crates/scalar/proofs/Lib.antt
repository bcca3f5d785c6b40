pub mod Scalars
pub mod Places
pub mod Words
