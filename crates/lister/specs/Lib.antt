-- The specification, in the order to read it: which bytes the listing of a journal is, and which its tellings; the
-- lister, byte by byte; what its functions do in lent memory.
pub mod Listing
pub mod Feeding
pub mod Buffers
