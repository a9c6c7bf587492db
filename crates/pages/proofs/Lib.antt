pub mod Fields
pub mod Legible
pub mod Writing
