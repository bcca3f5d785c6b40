-- That the pages hold, each by laws of the crates below.
pub mod E5
pub mod Demands
pub mod E2
pub mod E8
pub mod E9
pub mod E10
pub mod E11
pub mod E12
pub mod E1
pub mod E3
pub mod E13
pub mod E14
pub mod E6
pub mod E4
pub mod E7
pub mod Rules
