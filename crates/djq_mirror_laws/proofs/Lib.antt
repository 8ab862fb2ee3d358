mod ReadCommands
mod KnownTexts
mod StoredNames
pub mod SayableStates
mod Deltas
mod Replies
mod WatcherRuns
pub mod MirrorInputs
mod MirrorReplies
mod SessionCursors
mod MirrorSteps
pub mod MirrorRuns
mod PrintedLines
mod LineLengths
