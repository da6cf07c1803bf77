pub mod Accepted
pub mod RowPlaces
pub mod Rows
