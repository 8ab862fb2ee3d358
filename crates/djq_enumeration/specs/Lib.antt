pub mod Listing
pub mod Menus
pub mod Levels
pub mod Walk
pub mod Given
pub mod Changed
pub mod Told
pub mod Log
