pub mod Grained
pub mod Sample
pub mod Grains
