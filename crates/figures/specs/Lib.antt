pub mod Blends
pub mod Bytes
pub mod Figures
pub mod Mixes
pub mod Weights
