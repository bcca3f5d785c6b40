pub mod AtStations
pub mod InPieces
pub mod Looking
pub mod Planning
pub mod Reporting
pub mod Glyphing
