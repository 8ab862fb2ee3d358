pub mod Openings
pub mod Logs
pub mod Moments
pub mod ProgramRuns
pub mod ServedRuns
pub mod Replays
