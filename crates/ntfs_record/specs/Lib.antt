pub mod Seen
pub mod Mending
