pub mod Nodes
pub mod Places
pub mod Chains
pub mod Moves
pub mod HeadLaws
