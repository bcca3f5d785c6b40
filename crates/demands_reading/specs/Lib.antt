pub mod Cases
pub mod Members
pub mod Refusing
pub mod Placed
pub mod Ordered
