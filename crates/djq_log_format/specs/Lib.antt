pub mod Digest
pub mod Format
pub mod Laws
pub mod Example
pub mod Encoding
