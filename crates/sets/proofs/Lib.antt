pub mod Membership
pub mod Once
