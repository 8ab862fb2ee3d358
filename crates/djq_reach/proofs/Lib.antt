pub mod PlacedQueries
pub mod Logs
pub mod RowChanges
pub mod Batches
pub mod CatalogChains
pub mod Groups
pub mod Costs
