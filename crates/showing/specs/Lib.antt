pub mod Paging
pub mod Room
pub mod Shown
