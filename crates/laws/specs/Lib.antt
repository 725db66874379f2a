pub mod Ranges
pub mod Refusals
pub mod Inside
pub mod Unanswered
