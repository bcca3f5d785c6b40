-- The arguments on plans and prices, in the order in which they build on one another.
pub mod Positions
pub mod Sums
pub mod Certified
pub mod Taking
pub mod Telling
pub mod Concluding
