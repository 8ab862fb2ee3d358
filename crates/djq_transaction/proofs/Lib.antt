mod Worked
mod Tables
mod NamedRows
mod FirstLines
mod Places
mod Judgements
mod Full
mod Adding
mod Transactions
mod Counts
mod Slotted
mod Answering
mod Buffers
mod Headings
mod NamedRelations
mod Grouping
mod Entries
mod Joining
mod CatalogSteps
mod LineGroups
mod FewerRows
pub mod LeadingLines
mod SetCopies
mod Applying
mod AnyOrder
mod AppliedRows
mod SettledLines
pub mod InsertedRows
mod RemovedRows
mod Room
pub mod SuitingLines
