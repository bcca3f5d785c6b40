pub mod Digits
pub mod Double
pub mod DateTime
pub mod Grammar
