-- What a choice comes from, by E5's lookup.
pub mod Asking
