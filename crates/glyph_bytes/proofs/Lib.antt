pub mod Bytes
pub mod Leafs
