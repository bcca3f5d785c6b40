-- The laws of `lookup_answer`.
pub mod Answering
pub mod Reporting
