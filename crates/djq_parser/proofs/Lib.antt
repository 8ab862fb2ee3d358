pub mod ItemLists
pub mod RowLines
pub mod Bodies
pub mod CommandTokens
pub mod CommandLines
