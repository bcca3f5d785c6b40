pub mod Refusals
pub mod Letters
pub mod Numbers
pub mod Read
pub mod Tree
pub mod Grammar
pub mod Answers
