pub mod Left
pub mod Lengths
pub mod Once
pub mod Reading
pub mod Writing
