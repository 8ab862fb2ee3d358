pub mod Merges
pub mod UnionMembers
pub mod RisingNumbers
