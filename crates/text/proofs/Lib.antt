-- The laws of `text`, by what they are about.
pub mod Bytewise
pub mod Comparing
pub mod Walking
pub mod Grammar
pub mod Cases
pub mod Passing
