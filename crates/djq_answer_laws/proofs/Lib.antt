pub mod Lists
pub mod Decisions
pub mod Listings
pub mod Choices
pub mod Net
