pub mod Letters
pub mod Growing
pub mod Fitting
pub mod Completing
pub mod Unfolding
pub mod Deriving
pub mod Refusing
pub mod Concluding
