pub mod Places
pub mod Leafs
