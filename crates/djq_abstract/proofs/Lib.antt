pub mod Listings
pub mod Names
pub mod Sound
pub mod Live
pub mod Worked
