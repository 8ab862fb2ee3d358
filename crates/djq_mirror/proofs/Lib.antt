pub mod Spellings
pub mod LineForms
pub mod ReadLines
pub mod MirrorSteps
pub mod FollowedLines
