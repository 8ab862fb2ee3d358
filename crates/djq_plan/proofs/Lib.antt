pub mod Choices
pub mod GrowthInvariant
pub mod GrowthSteps
pub mod GrownTrees
pub mod LabelPairs
pub mod FlatQueries
pub mod ReductionSteps
