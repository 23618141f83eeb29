pub mod Views
pub mod Cases
pub mod Impostors
pub mod Orders
pub mod Malformed
