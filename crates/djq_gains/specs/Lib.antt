pub mod Gains
pub mod Gathered
pub mod Gathering
