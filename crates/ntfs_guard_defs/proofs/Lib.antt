pub mod GuardLaws
pub mod HeldLaws
pub mod MapLaws
pub mod SlotLaws
pub mod VolumeLaws
