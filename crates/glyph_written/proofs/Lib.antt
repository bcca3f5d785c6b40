pub mod Back
pub mod RowKinds
