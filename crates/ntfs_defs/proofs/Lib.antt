pub mod DamageLaws
pub mod ListLaws
pub mod RunLaws
pub mod RunRows
