-- What numbers in range say; answers by their numbers.
pub mod Ranges
pub mod Answers
