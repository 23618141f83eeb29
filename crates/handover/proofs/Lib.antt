pub mod Deciding
pub mod Done
pub mod Issuing
pub mod Keys
pub mod Resets
pub mod Rows
pub mod Senders
