pub mod Replies
pub mod Lines
pub mod Joins
pub mod Totals
pub mod Draws
pub mod Load
pub mod Rest
