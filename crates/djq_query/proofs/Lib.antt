pub mod Atoms
pub mod NumberedQueries
pub mod Numbers
