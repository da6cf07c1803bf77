pub mod Areas
pub mod Crossings
pub mod Fitting
pub mod Holes
pub mod NewRings
pub mod OnEdge
pub mod Sides
pub mod Spreads
