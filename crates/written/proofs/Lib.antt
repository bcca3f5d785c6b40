-- That the written form is the draft's, settled by the meaning and shortest: the arguments, in the order in which they build on one another.
pub mod Limiting
pub mod Standing
pub mod Tests
pub mod Combining
pub mod Sending
pub mod Forming
pub mod Bounding
pub mod Measuring
pub mod Saving
pub mod Planning
pub mod Walking
pub mod Fitting
pub mod Concluding
pub mod Returning
