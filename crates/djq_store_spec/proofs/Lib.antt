pub mod Relations
pub mod SoManyCopies
