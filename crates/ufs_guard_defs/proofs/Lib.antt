pub mod StreamLooks
pub mod NameLooks
pub mod VolumeLooks
pub mod GuardSeen
pub mod GuardLaw
