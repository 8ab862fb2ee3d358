pub mod Sets
pub mod Labels
pub mod LabelTrees
pub mod JoinTrees
