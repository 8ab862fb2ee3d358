pub mod Buffer
pub mod Chains
pub mod Dictionary
pub mod Hash
pub mod Index
pub mod Known
