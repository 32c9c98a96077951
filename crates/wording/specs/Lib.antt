-- The specification, in the order to read it: which bytes the sentence of a call and its answer is,
-- and what becomes of a buffer that it is written to.
pub mod Sentence
pub mod Entry
