pub mod Keeps
pub mod Dialog
