pub mod Telling
pub mod Fitting
pub mod Walking
pub mod Texts
pub mod Shorter
pub mod Deeper
pub mod Concluding
