pub mod Format
pub mod Standing
pub mod Calls
pub mod Appending
pub mod Staging
pub mod Reading
pub mod Passing
