pub mod Copying
pub mod Holding
