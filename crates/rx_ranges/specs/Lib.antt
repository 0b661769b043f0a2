pub mod Held
pub mod Hull
pub mod Path
pub mod PlanChecks
pub mod Laying
