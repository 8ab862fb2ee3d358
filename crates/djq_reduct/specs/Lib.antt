pub mod Columns
pub mod Heads
pub mod Tables
pub mod Reducts
pub mod Marks
pub mod Answers
