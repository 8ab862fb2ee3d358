pub mod Assignments
pub mod Paths
