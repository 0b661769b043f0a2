pub mod Told
pub mod Wrong
pub mod Damage
pub mod SlotDamage
pub mod EntryDamage
pub mod DamageLaws
