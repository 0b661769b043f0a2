pub mod JournalLaws
pub mod PlanLaws
