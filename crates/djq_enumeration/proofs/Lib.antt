pub mod Menus
pub mod Cells
pub mod States
pub mod LevelChoices
pub mod ListedAnswers
pub mod NextAnswers
pub mod MarkedGroups
pub mod Deltas
pub mod BackwardWalks
mod Settling
