pub mod Sizes
pub mod Walks
pub mod Touches
pub mod Updates
pub mod Bounds
pub mod Batches
