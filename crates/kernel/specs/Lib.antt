-- What a call comes to on the lent memory, said as demand 1 says it, and calls made in turn.
pub mod Kept
pub mod Rights
pub mod InTurn
