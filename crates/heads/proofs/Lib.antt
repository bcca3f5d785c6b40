pub mod Values
pub mod Entering
