pub mod Says
pub mod PlanLaws
pub mod Kept
pub mod Resuming
pub mod Redacting
