pub mod Records
pub mod Appends
