pub mod Laws
pub mod Listed
pub mod Means
pub mod Owners
pub mod Partial
pub mod Passing
