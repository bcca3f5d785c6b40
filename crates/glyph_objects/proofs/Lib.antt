pub mod Objects
pub mod Running
pub mod Entering
pub mod Ending
