pub mod Examples
pub mod Once
pub mod Parts
pub mod Reasons
pub mod Table
