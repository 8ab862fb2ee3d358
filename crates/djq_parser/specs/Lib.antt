pub mod Splitting
pub mod Refusing
pub mod Reading
pub mod Bodies
pub mod Saying
pub mod Laws
pub mod RowReading
