pub mod Asked
pub mod Planning
pub mod Ordering
