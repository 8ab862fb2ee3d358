mod IdleSessions
mod Cursors
mod Listings
mod RegisteredQueries
mod WholeLoads
pub mod Draws
