pub mod Memory
pub mod Prefixes
pub mod Determinacy
pub mod Reductions
pub mod Dialogues
pub mod Sessions
