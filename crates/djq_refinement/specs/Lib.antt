pub mod View
pub mod Spelling
pub mod Refinement
