pub mod Again
pub mod Back
pub mod Formed
pub mod Once
pub mod Refusing
