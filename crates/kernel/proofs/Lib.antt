-- The lemmas of the core, in the order to read them. Demand 1 stands in Kept, demand 3 of calls made in turn in InTurn,
-- what the lent memory says of rights in Rights; Bites has wrong cores, of which demand 1 is false.
pub mod Entry
pub mod Kept
pub mod Rights
pub mod InTurn
pub mod Bites
