pub mod Cells
pub mod Leaves
pub mod Changes
pub mod Stepping
pub mod Building
pub mod Batching
