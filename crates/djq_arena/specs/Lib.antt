pub mod Link
pub mod Chains
pub mod Rows
pub mod Buckets
pub mod Store
