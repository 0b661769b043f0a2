pub mod StreamDamage
pub mod Damage
