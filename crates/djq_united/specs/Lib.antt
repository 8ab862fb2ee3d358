pub mod Slots
pub mod United
pub mod Advancing
pub mod Reading
pub mod Staying
