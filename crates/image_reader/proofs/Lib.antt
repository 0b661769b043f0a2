pub mod Magics
pub mod Reading
