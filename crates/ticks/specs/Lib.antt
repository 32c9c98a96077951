-- What is counted is defined in billing. Here is how far a count has come, which only the functions inside promise.
pub mod Counting
