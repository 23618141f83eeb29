pub mod Table
pub mod Sound
pub mod Step
pub mod Reached
