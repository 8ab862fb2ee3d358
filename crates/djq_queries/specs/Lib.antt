pub mod Going
pub mod Netting
pub mod Changing
pub mod Settling
