pub mod Rows
pub mod Deltas
pub mod Clients
pub mod Moves
pub mod Histories
pub mod Promises
pub mod Worked
