-- The lemmas of the steps, in the order to read them. The proof of a function stands in a folder of its name.
pub mod Words
pub mod Rows
pub mod Blocks
pub mod Sites
pub mod Singles
pub mod Composed
pub mod Levels
