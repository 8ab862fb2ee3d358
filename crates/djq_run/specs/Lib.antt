pub mod Number
pub mod Ends
pub mod Parts
pub mod LastWrite
