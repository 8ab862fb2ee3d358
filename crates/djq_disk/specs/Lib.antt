pub mod File
pub mod History
pub mod Leaving
pub mod DiskFaults
pub mod CallLog
pub mod MemDisk
pub mod Filling
pub mod WritingDown
