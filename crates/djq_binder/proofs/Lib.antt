pub mod EdgeOrder
pub mod Hypergraphs
pub mod Interning
