pub mod Finding
pub mod Before
