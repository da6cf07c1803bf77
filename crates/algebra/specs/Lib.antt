pub mod Cuts
pub mod Passing
pub mod Placing
pub mod Sums
pub mod Tables
