-- The lemmas of a thread's block. A function's proof stands in a folder of its name.
pub mod Ticks
pub mod Moves
