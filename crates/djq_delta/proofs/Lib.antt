pub mod Alone
mod Packed
pub mod Net
