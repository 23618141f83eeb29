pub mod Values
pub mod Words
