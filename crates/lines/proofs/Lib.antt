pub mod Blocks
pub mod Example
pub mod Going
pub mod Longest
pub mod Once
pub mod Turning
pub mod Within
