pub mod Paths
pub mod Nodes
pub mod WorkedExamples
