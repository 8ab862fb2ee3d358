pub mod Cells
pub mod Interning
pub mod Entries
pub mod Relations
pub mod Catalogs
pub mod Slots
