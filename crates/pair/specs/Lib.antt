pub mod World
pub mod Theorem
