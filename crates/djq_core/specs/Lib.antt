pub mod Loading
pub mod Unwatched
pub mod Sessions
pub mod Lends
