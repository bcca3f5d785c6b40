pub mod Lent
pub mod Lying
pub mod Numbered
pub mod Sharing
