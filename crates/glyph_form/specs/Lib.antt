pub mod Sorts
pub mod Writable
pub mod Told
pub mod Form
pub mod Answers
pub mod Cases
