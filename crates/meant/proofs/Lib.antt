-- What a lookup answers is what the draft derives.
pub mod Structs
pub mod Saying
pub mod Parting
pub mod Only
