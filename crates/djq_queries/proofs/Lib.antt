pub mod Catalogs
pub mod Deltas
pub mod Chains
pub mod Works
pub mod Logs
pub mod Costs
pub mod Changes
pub mod ChangedLogs
pub mod ChangeCosts
mod Settles
pub mod NetLogs
