pub mod AttributeLaws
pub mod FoundLaws
pub mod LentLaws
pub mod RecordLaws
pub mod Rows
pub mod StoredLaws
