-- That reading is the draft's grammar: the arguments, in the order in which they build on one another.
pub mod Standing
pub mod Replaying
pub mod Realising
pub mod Completing
pub mod Deriving
pub mod Growing
pub mod Concluding
pub mod Members
pub mod Keys
