pub mod Bottoms
pub mod Searches
