pub mod Schedule
pub mod Made
pub mod Sent
