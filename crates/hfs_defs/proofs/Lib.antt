pub mod HeaderDamage
pub mod ForkLaws
pub mod ForkDamage
pub mod LeafLaws
pub mod Rows
pub mod TreeFiles
