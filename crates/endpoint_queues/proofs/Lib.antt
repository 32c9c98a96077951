-- The lemmas of the marks of an abort, in the order to read them.
pub mod Passing
pub mod Marking
