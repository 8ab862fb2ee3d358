pub mod Digesting
pub mod Seen
pub mod Once
pub mod Cut
pub mod Worked
pub mod Measuring
pub mod Changed
