pub mod Alike
pub mod Numbers
pub mod Stations
