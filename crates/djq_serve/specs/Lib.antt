pub mod Told
pub mod Server
pub mod Goes
pub mod Fair
pub mod Kept
pub mod Ends
pub mod Logged
pub mod Parts
