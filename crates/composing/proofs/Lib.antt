pub mod Machine
pub mod Once
pub mod Taken
