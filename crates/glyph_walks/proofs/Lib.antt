pub mod Childless
pub mod Holding
pub mod Walks
