pub mod Known
pub mod Hash
pub mod Index
