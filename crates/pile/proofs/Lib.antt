pub mod Changes
pub mod Counts
pub mod Radices
pub mod Soundness
