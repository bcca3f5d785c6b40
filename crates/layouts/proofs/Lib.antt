-- What is settled by rows, whatever the layout: rows stored, then what is asked of them.
pub mod Storing
pub mod Agreeing
pub mod Tying
