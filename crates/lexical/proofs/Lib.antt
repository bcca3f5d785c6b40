-- The tests of the two texts and their grammar agree, and what passes them is ASCII.
pub mod Doubles
pub mod DateTimes
