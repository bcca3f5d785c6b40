pub mod Readings
pub mod Items
pub mod Tags
pub mod Stepping
