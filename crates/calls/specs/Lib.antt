-- The calls and their answers.
pub mod Calls
pub mod Answers
pub mod Numbers
