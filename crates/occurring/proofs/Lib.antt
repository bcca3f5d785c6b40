pub mod Among
pub mod Repeating
