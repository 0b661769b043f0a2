pub mod Form
pub mod Reading
pub mod Checks
pub mod Laws
