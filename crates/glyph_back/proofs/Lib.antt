pub mod Numerals
pub mod Back
pub mod Derived
pub mod Sizes
