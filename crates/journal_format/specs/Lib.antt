pub mod Filled
pub mod Header
pub mod Says
pub mod Parts
pub mod Cursors
