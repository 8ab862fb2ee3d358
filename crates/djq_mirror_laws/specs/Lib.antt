pub mod Sayable
pub mod Told
pub mod Lines
pub mod Mirrored
pub mod Whole
pub mod Loaded
