pub mod Snapshot
pub mod Restorable
