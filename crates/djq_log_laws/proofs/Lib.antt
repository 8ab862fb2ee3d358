mod Stores
pub mod Commands
mod Copies
mod HeldLines
mod LoggedLines
pub mod Reloads
