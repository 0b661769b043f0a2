pub mod Answers
pub mod Changes
pub mod Files
pub mod Outside
pub mod ReadFaults
pub mod Readers
