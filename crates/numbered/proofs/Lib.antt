-- The parts of a numbered sentence, and how long it is; that it is one line; lines computed. The proof of each function
-- stands in the folder of its name.
pub mod Places
pub mod OneLine
pub mod Examples
