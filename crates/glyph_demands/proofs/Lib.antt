pub mod Cases
pub mod Letters
pub mod Reading
pub mod Settled
pub mod Ends
