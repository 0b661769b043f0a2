pub mod Fields
pub mod Journals
pub mod JournalLaws
pub mod Lines
pub mod Passing
pub mod Ranges
pub mod Rows
