pub mod Stages
pub mod Plan
pub mod Search
pub mod Reduced
