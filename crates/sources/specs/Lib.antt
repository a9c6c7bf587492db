pub mod Answers
pub mod Courses
pub mod Drawing
pub mod Generators
pub mod Records
pub mod Tapes
