pub mod Lines
pub mod Delta
pub mod Members
