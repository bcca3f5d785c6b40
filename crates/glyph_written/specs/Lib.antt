pub mod RowKinds
