pub mod Cutting
pub mod Examples
pub mod Little
pub mod Once
pub mod Rest
pub mod RoundTrip
pub mod Whole
