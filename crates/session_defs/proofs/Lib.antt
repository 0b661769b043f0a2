pub mod Writes
pub mod Made
pub mod Filled
pub mod Marks
pub mod OutcomeLaws
pub mod Acknowledged
pub mod Rows
