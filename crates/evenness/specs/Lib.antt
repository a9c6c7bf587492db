pub mod Counting
pub mod Events
pub mod Example
pub mod Laws
pub mod Tapes
