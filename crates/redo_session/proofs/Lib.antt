pub mod StepLaws
pub mod SessionLaws
pub mod TurnLaws
