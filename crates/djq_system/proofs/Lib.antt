pub mod FileHistory
pub mod SourceReadings
