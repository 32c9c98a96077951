-- The lemmas of the tests taken in turn. The proof of a function stands in a folder of its module's and its name.
pub mod Numbers
pub mod Summing
pub mod Running
