pub mod Turns
pub mod Nesting
pub mod Items
