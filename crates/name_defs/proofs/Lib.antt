pub mod ByteLaws
pub mod OneSpelling
pub mod Rows
pub mod ShownLaws
pub mod SpellingLaws
pub mod TextLaws
pub mod UnitLaws
pub mod WalkLaws
