pub mod Certificate
pub mod Contract
