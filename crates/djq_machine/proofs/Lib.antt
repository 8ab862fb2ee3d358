pub mod Relations
pub mod Explanations
