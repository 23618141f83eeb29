pub mod Causes
pub mod Numbers
pub mod Parts
pub mod Rules
