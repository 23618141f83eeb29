pub mod Bearer
pub mod Flaws
pub mod Admission
pub mod Working
