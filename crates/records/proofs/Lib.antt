pub mod Looking
pub mod Finding
pub mod Trails
pub mod Standing
pub mod Records
