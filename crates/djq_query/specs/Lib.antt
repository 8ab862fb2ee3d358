pub mod Relations
pub mod Clashes
pub mod Standing
pub mod Numbered
pub mod Pattern
pub mod Meaning
pub mod Comparing
