-- All who joined an abort hear its end. In the state: who is engaged in an abort stays so, and begins none when it
-- calls again.
pub mod Engaged
pub mod EngagedAgain
-- In the history: what the sets and notes say of one thread, a call 12 of another, every call aside, and the two calls
-- of the thread itself.
pub mod Sets
pub mod Walks
pub mod Others
pub mod Own
pub mod Again
pub mod Broken
pub mod SameAbort
