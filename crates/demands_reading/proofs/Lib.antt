pub mod Cases
pub mod Reading
pub mod Settled
pub mod Placed
pub mod Answering
pub mod Values
pub mod Keys
pub mod Ordered
