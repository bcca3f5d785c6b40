pub mod Asked
pub mod Through
pub mod Handed
pub mod Spelled
