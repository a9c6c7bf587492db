pub mod Admissions
pub mod Entering
pub mod Numbers
pub mod Opening
pub mod Requests
pub mod Rosters
pub mod Running
pub mod Told
