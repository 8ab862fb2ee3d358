pub mod Members
pub mod Cursors
