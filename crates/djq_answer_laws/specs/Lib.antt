pub mod Decided
pub mod Finite
pub mod Bounded
pub mod Growing
pub mod Net
