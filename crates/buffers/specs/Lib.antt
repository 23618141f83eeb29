pub mod Buffers
pub mod Digits
