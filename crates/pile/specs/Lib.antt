pub mod Answers
pub mod Laws
pub mod Meaning
pub mod Opening
pub mod Rules
