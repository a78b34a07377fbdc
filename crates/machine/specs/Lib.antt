pub mod Refusals
pub mod States
pub mod Calls
pub mod Outcomes
pub mod Answers
pub mod Inside
pub mod Machines
pub mod Separation
