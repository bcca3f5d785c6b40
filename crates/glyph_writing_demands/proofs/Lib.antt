pub mod Tables
pub mod Writer
pub mod Output
