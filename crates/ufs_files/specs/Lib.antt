pub mod Groups
pub mod Filed
pub mod Guarded
