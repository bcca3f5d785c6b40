pub mod Layouts
pub mod Asking
