pub mod TreeAnswers
pub mod LeafRows
pub mod Fills
pub mod LeafUpdates
pub mod Batches
pub mod Costs
pub mod Removals
