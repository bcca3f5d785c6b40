pub mod Derivable
