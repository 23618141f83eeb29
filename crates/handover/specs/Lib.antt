pub mod Numbers
pub mod Events
