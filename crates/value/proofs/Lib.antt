pub mod Turns
pub mod Taking
pub mod Keys
pub mod Items
pub mod Arrays
