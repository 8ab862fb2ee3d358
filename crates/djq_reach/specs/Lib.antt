pub mod Places
pub mod Reaching
pub mod Tending
pub mod Batching
pub mod Grouping
pub mod Growing
