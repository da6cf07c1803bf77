mod Admitted
mod Changes
mod Grows
mod Holes
mod Made
mod Searches
mod Shown
