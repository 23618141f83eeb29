pub mod Record
pub mod Stream
