pub mod Chains
pub mod Buckets
pub mod Stores
pub mod Slots
pub mod Rows
