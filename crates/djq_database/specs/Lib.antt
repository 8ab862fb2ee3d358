pub mod Cells
pub mod Rows
pub mod Catalog
pub mod Changes
pub mod Parts
pub mod Tuples
pub mod Walking
pub mod Laws
