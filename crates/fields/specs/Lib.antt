pub mod Kinds
pub mod Malformed
pub mod Fields
