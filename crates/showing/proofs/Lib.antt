pub mod Once
pub mod Paging
pub mod Texts
