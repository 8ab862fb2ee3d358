pub mod Answers
pub mod Order
pub mod Union
pub mod Going
pub mod Steps
