pub mod Plans
pub mod Forms
pub mod Contract
