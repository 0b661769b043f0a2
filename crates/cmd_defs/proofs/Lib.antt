pub mod PlanAnswerLaw
pub mod JournalAnswers
pub mod StoreLaws
