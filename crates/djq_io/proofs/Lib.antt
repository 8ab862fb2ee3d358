pub mod Streams
pub mod Failures
pub mod Hubs
